pub mod TableLemmas
pub mod PassLemmas
pub mod KnownLemmas
pub mod TellLemmas
pub mod AuditLemmas
