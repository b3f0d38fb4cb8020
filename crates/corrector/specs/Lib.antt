pub mod Computed
pub mod Corrected
pub mod Hits
