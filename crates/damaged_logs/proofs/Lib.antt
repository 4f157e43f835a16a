-- The lemmas of this crate: none above it cites them.
mod BeforeCalls
mod BeforeImages
mod BeforeReading
mod BeforeRecovering
mod Plans
mod Surveys
