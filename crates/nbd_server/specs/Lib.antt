pub mod Owing
pub mod Causes
pub mod Input
pub mod Answers
pub mod Taking
