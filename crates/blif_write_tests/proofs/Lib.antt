pub mod EachKindLemmas
pub mod InverterLemmas
