pub mod Due
pub mod Ledger
pub mod Rounds
pub mod Steps
pub mod Text
