pub mod Finding
pub mod Scanning
pub mod Passing
pub mod Refusals
