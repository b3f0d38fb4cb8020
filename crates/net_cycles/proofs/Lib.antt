pub mod CycleLemmas
pub mod FinishLemmas
pub mod ReverseLemmas
pub mod RootLemmas
pub mod StackLemmas
