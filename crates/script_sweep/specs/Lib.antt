pub mod Places
pub mod Steps
pub mod Sweeping
pub mod Swept
