pub mod Built
pub mod MainLoop
pub mod RowLemmas
pub mod LeafLemmas
pub mod EndLemmas
pub mod Whole
