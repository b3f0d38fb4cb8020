pub mod Elaborated
pub mod Flat
pub mod Labels
