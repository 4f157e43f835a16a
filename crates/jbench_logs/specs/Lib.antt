pub mod Done
pub mod Said
pub mod Holding
