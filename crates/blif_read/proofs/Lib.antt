pub mod WordTests
pub mod SummaryLemmas
pub mod FewWords
pub mod ReaderLemmas
pub mod SpelledLemmas
pub mod RowLemmas
pub mod BuildingLemmas
pub mod FileLemmas
