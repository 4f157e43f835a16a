pub mod Applying
pub mod Obeying
pub mod Runs
pub mod Sweeps
pub mod Unapplied
