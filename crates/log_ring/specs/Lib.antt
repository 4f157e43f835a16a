pub mod Parts
pub mod Ring
