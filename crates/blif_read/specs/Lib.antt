pub mod Ids
pub mod View
pub mod Faults
pub mod Kinds
pub mod LineTests
pub mod Summaries
pub mod Spelled
pub mod Building
