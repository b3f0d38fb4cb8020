pub mod Cells
pub mod DistinctNames
pub mod FlatNamed
pub mod FlatSteps
pub mod FlatLabels
pub mod FlatIsFlat
