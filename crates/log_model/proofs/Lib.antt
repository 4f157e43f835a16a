-- The lemmas of this crate that crates above it cite.
pub mod HomeCounts
pub mod Newest
pub mod OwnTextBlocks
pub mod OwnTextEntries
pub mod OwnTextGroups
pub mod OwnTextHeader
pub mod OwnTextNumbers
pub mod OwnTextRevokes
pub mod OwnTextTags
pub mod OwnTextWhole
pub mod ReadingFronts
pub mod ReadingNumbers
pub mod ReadingPieces
pub mod ReadingTags
pub mod ReadingTexts
-- The others.
mod OwnTextEscapes
mod OwnTextPieces
