-- Lemmas that crates above cite.
pub mod CopiesReplayed
pub mod Examining
pub mod LastCopies
pub mod MadeCalls
pub mod NewestHome
pub mod OpeningMoments
pub mod Plans
pub mod Recovering
-- Lemmas that only this crate cites.
mod Beginnings
mod ChainChanges
mod ChoiceSteps
mod Choosing
mod CopyRuns
mod CopySteps
mod CountRuns
mod Counting
mod GatherRuns
mod MakingMoments
mod Noting
mod OpeningDone
mod OpeningPaths
mod PassCalls
mod PlaceNotes
mod Reading
mod ReplayRuns
mod SameLogs
mod Testing
mod UnfinishedTables
mod UpgradeCalls
mod Upgrades
mod Zeroed
