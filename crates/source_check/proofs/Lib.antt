pub mod AnswerLemmas
pub mod CostLemmas
pub mod TestLemmas
