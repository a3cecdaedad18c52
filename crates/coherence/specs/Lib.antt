pub mod Keeping
pub mod Entering
pub mod KeepingOf
pub mod KeepingInCode
