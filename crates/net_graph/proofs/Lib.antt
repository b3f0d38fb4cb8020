pub mod ChainLemmas
pub mod MarkLemmas
pub mod RowLemmas
pub mod VisitLemmas
