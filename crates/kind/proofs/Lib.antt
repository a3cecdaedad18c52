pub mod Tested
pub mod Classes
pub mod Families
