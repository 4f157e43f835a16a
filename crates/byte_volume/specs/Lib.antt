pub mod Reading
pub mod Refusals
pub mod Writing
pub mod Numbers
