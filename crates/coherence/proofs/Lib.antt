pub mod Kept
pub mod Found
pub mod Along
pub mod KeptInCode
pub mod Reached
pub mod Example
pub mod Applied
pub mod Spelled
