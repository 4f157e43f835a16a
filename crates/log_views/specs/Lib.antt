pub mod Copies
pub mod Leaving
pub mod Ring
