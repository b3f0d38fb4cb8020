pub mod Faults
pub mod Marks
pub mod Merge
pub mod Tables
