pub mod Refusals
pub mod Entries
pub mod Scripts
pub mod Faults
