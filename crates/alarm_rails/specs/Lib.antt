pub mod Rail
pub mod Syndromes
