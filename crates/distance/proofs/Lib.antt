pub mod Least
pub mod PairLemmas
pub mod LevelLemmas
pub mod PatternLemmas
