pub mod Accepted
pub mod Faults
pub mod Settled
pub mod Made
