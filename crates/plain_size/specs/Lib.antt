pub mod Cones
pub mod Edges
pub mod Nets
pub mod Nodes
pub mod Prices
pub mod Sizes
pub mod Sums
pub mod Walks
