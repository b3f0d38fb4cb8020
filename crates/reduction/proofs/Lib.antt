pub mod Appended
pub mod Inputs
pub mod Outputs
pub mod GateReads
pub mod NameOrder
