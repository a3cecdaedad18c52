pub mod Along
pub mod InCode
pub mod Slots
pub mod Clearing
pub mod Applied
pub mod Spelled
