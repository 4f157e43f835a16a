pub mod Stored
pub mod State
pub mod MemIndex
pub mod Memory
pub mod MemInvariant
pub mod Stop
pub mod Fail
pub mod Call
