-- The lemmas that the laws cite.
pub mod Crashes
pub mod Cuts
pub mod Ended
pub mod Receipts
pub mod Recording
pub mod Rows
pub mod Works
-- The others.
mod Answered
mod Classes
mod Homes
mod InOrder
mod Lasting
mod Orders
mod Owning
mod Steps
mod Tickets
