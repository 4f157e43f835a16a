pub mod Layout
pub mod Requests
