pub mod Clocking
pub mod Counts
pub mod Reserved
