pub mod OddInputs
pub mod Widths
