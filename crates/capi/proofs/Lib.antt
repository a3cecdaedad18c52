pub mod IndexInC
pub mod KeptInC
pub mod Applied
pub mod AppliedKept
pub mod ReadInC
mod TurnsWitness
mod Calls
pub mod Spelled
