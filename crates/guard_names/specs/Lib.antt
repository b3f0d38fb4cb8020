pub mod Labels
pub mod OfGuard
pub mod ToName
