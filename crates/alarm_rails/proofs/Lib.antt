pub mod Sums
pub mod Alarms
pub mod Counts
pub mod Bits
pub mod Ranges
pub mod Steps
