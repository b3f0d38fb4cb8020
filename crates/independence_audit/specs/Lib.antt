pub mod Kept
pub mod Table
pub mod Known
pub mod Audited
pub mod Told
