pub mod Front
pub mod FrontView
pub mod Transaction
pub mod TransactionView
pub mod Values
