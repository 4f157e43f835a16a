pub mod Changes
pub mod Inputs
pub mod Refusing
