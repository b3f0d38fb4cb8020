pub mod Joined
pub mod FromJoined
pub mod Few
pub mod Room
