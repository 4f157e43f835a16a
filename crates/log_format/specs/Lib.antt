pub mod Accepted
pub mod Size
