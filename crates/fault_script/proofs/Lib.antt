pub mod CellLemmas
pub mod ListLemmas
pub mod ReadLemmas
pub mod MapLemmas
