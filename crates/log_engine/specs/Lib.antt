pub mod Close
pub mod Direct
pub mod Engine
pub mod Left
pub mod Rounds
