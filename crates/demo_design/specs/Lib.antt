pub mod Texts
pub mod Design
