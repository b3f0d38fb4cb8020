pub mod Parts
pub mod Seen
pub mod Counts
pub mod Sorted
pub mod EarlyEnd
pub mod Settled
