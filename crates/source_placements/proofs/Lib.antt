mod FirstLemmas
mod UsedLemmas
mod PortLemmas
