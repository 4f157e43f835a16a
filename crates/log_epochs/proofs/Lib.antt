-- The lemmas of this crate that crates above it cite.
pub mod CleanLogs
pub mod Closing
pub mod Journals
pub mod Keeping
pub mod Leading
pub mod Lives
pub mod Moments
pub mod OpeningLeads
pub mod OpeningMoments
pub mod Replaying
pub mod Running
pub mod UpgradeMoments
pub mod Whole
-- The others.
mod CleanRuns
mod EngineRuns
mod Following
mod HomeRule
mod Homes
mod JournalSteps
mod JournalSynced
mod ReplayMoments
mod Stages
mod Synced
mod Upgrading
