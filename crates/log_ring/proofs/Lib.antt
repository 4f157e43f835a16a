-- The lemmas of this crate: none above it cites them.
mod Grouped
mod OwnParts
mod PartPlaces
mod Rows
