pub mod Apart
pub mod Cleared
pub mod Over
pub mod Wanted
