pub mod Joins
pub mod More
pub mod Copies
pub mod Checks
pub mod Alarms
