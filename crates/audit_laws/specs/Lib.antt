pub mod FirstBits
pub mod Along
pub mod OnePass
pub mod Table
