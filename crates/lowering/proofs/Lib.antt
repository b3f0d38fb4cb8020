pub mod TableLemmas
pub mod CoverLemmas
pub mod GateLemmas
pub mod PortLemmas
pub mod EntryLemmas
pub mod PlacedLemmas
pub mod LoweredLemmas
pub mod CellLemmas
