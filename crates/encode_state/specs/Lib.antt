pub mod Types
pub mod Faults
pub mod Places
pub mod Listed
pub mod Nets
