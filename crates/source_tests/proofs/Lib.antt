pub mod FirstLemmas
pub mod ItemLemmas
pub mod ModelLemmas
pub mod NetLemmas
pub mod SeenLemmas
