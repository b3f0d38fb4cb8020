pub mod Views
pub mod Runs
pub mod Rests
pub mod Sorted
