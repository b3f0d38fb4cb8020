pub mod Built
pub mod Promised
