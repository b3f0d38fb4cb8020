pub mod FirstPlace
pub mod LineTextLemmas
pub mod SplitLemmas
pub mod WordLemmas
pub mod TokenLemmas
pub mod LinesLemmas
pub mod NamesLemmas
