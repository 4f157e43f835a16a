pub mod Before
pub mod BeforeSteps
pub mod Planned
