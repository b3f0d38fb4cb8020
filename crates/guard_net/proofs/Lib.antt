pub mod Lists
mod DataPlaces
mod LatchRows
pub mod RightCells
mod StateWords
mod CheckWords
pub mod ShownOutputs
mod PartitionSums
mod WatchedWords
mod GuardParts
mod MadeGuards
