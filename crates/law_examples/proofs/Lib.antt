pub mod PlacingMachine
pub mod ToggleGuard
pub mod JoinedList
pub mod JoinedGuard
pub mod JoinedText
