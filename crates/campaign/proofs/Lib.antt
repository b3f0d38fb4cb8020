pub mod NearLemmas
pub mod CycleLemmas
pub mod RunLemmas
pub mod RestLemmas
pub mod SortLemmas
pub mod SourceLemmas
pub mod TallyLemmas
