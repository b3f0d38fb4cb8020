pub mod Drivers
pub mod Nets
pub mod Orders
pub mod Settled
