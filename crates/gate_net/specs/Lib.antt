pub mod Bit
pub mod Gate
pub mod GateNet
pub mod Machine
pub mod Words
pub mod Written
