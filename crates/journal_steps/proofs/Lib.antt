-- Lemmas that crates above cite.
pub mod Audited
pub mod Kept
pub mod LegalSteps
pub mod Newest
pub mod Quarter
pub mod Reading
pub mod Turning
-- Lemmas that only this crate cites.
mod Directs
mod Noting
mod Rounding
mod Sealing
mod Unreleased
mod Verbs
