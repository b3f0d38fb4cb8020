pub mod PlacingMachine
pub mod JoinedList
pub mod ParityText
