pub mod Ending
mod Obeyed
mod Staying
mod Unapplying
