pub mod Cycles
pub mod Finished
pub mod Reversed
pub mod Roots
pub mod Visits
