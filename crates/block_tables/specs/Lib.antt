pub mod BlockSet
pub mod Copies
pub mod Effects
pub mod Revokes
