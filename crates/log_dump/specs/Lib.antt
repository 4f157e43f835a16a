pub mod Dumping
pub mod Lines
