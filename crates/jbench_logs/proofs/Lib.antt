pub mod Holding
mod ReadsAfter
mod LeftLines
