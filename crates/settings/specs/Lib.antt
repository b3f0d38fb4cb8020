pub mod Faults
pub mod Types
pub mod Keys
pub mod Matrix
pub mod Library
