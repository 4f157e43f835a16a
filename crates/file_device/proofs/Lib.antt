-- The lemmas of this crate: none above it cites them.
mod FileBlocks
mod GatheredBlocks
mod KeptAhead
mod Walks
