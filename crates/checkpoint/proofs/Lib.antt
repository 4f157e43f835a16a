-- The lemmas of this crate: none above it cites them.
mod Chaining
mod Committing
mod Kept
mod Listed
mod Newest
mod Ordered
mod Released
mod Releasing
mod Withdrawn
