pub mod FirstBits
pub mod GateOrder
pub mod Along
pub mod Findings
pub mod OnePass
pub mod Table
