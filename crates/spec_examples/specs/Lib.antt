pub mod Examples
pub mod SourceExamples
pub mod Toggle
pub mod Wire
pub mod Unshown
pub mod WrongGuards
pub mod Refused
