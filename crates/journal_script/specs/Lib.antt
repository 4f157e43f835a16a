pub mod Measures
pub mod Named
pub mod Line
pub mod Names
pub mod Text
pub mod Clients
