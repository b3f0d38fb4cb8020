pub mod Cones
pub mod Copies
pub mod Ranges
pub mod Whole
