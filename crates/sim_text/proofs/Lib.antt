pub mod BitLemmas
pub mod PackedLemmas
pub mod RowLemmas
pub mod StimulusLemmas
