pub mod Laws
pub mod Host
pub mod Codec
pub mod Words
pub mod Block
pub mod Theorem
pub mod Checks
