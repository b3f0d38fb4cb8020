pub mod Binds
pub mod Inside
