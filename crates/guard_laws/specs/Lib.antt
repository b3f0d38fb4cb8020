pub mod Promised
pub mod Named
pub mod Texts
pub mod Rows
pub mod Copies
pub mod Places
pub mod Watched
pub mod Within
