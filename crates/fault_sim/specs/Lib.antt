pub mod Gates
pub mod Faults
pub mod Row
pub mod Cells
pub mod Simulated
pub mod Build
pub mod HasRun
