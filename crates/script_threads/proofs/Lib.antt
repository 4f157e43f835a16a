-- The lemmas of this crate; no other crate cites them.
mod Ending
mod Lists
