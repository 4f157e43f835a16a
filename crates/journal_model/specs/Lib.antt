pub mod Refusal
pub mod Transaction
pub mod Record
pub mod Reading
pub mod Disk
pub mod Credits
pub mod Layout
pub mod Block
