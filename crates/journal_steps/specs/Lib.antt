pub mod Direct
pub mod Journal
pub mod Legal
pub mod Unreleased
pub mod Values
pub mod Handles
pub mod Verbs
