pub mod Closed
pub mod Counting
