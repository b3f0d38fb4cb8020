pub mod CycleLemmas
pub mod ModelLemmas
