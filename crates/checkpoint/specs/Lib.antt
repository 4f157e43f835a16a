pub mod Chains
pub mod Copies
pub mod Pending
pub mod PendingView
pub mod Places
pub mod Steps
