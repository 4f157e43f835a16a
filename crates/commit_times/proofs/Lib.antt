-- The lemmas of this crate: none above it cites them.
mod Sending
