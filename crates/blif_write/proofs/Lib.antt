pub mod FileLemmas
pub mod NamedTexts
pub mod NumberLemmas
pub mod Steps
