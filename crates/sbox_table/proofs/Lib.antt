pub mod MintermReads
pub mod Numbers
pub mod Terms
pub mod Widths
