pub mod StandIn
pub mod Promised
