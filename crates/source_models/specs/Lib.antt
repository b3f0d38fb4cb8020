pub mod Cycles
pub mod Order
pub mod Recursion
