pub mod SettledLemmas
pub mod MadeLemmas
