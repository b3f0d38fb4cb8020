pub mod FaultLemmas
pub mod NoRefusal
pub mod StimulusLength
pub mod TallyLines
pub mod DemoText
pub mod TriedLemmas
