pub mod Checks
pub mod Costs
