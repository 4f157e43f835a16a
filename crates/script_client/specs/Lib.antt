pub mod Ended
pub mod Lines
pub mod Names
pub mod Outcomes
pub mod Performed
pub mod Shown
pub mod Steps
pub mod Told
