pub mod Sizes
pub mod Labels
pub mod Partial
pub mod ConeMarks
pub mod TakenOver
pub mod BitOrder
