pub mod Evaluation
pub mod Machines
pub mod Nets
pub mod OneEvaluation
pub mod Ranges
pub mod Written
pub mod Steps
