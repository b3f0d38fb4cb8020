pub mod Computed
pub mod Correction
pub mod Decoding
pub mod ErrorBits
pub mod HitBits
pub mod Patterns
pub mod SyndromeBits
