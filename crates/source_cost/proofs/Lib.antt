pub mod CostLemmas
