pub mod Firsts
pub mod ClockLemmas
pub mod NameLemmas
pub mod CountLemmas
