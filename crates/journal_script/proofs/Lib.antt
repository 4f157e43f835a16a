-- The lemmas of this crate: none above it cites them.
mod Keys
mod Naming
mod Serving
mod Texts
