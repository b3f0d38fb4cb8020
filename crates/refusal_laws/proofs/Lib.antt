pub mod FirstFound
pub mod Walk
pub mod OneRefusal
