pub mod Catalog
pub mod Graph
pub mod Ports
pub mod Rows
pub mod Survey
