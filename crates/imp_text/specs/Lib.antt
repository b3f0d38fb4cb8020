pub mod LineText
pub mod Quantities
pub mod Reading
pub mod Tokens
pub mod Names
