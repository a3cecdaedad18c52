pub mod Scans
pub mod LastShown
pub mod Touching
pub mod Refusing
pub mod Cases
pub mod Applied
pub mod Spelled
