pub mod Levels
pub mod Patterns
