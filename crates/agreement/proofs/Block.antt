pub mod Frame
pub mod Stages
pub mod EntryToReturn
pub mod Length
