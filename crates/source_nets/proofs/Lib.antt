pub mod CatalogLemmas
pub mod DigitLemmas
pub mod GraphLemmas
pub mod IndexLemmas
pub mod NameLemmas
pub mod PortLemmas
pub mod RowLemmas
pub mod SurveyLemmas
