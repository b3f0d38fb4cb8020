pub mod MarkLemmas
pub mod MergeLemmas
pub mod TableLemmas
