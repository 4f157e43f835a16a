pub mod Ahead
pub mod Blocks
pub mod Calls
pub mod Notes
pub mod Files
pub mod Gathered
pub mod NotedFiles
