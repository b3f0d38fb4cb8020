mod CorrectedWords
mod JoinedRoom
mod NetMarks
mod Stands
