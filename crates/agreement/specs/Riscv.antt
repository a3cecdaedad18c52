pub mod Fields
pub mod Immediates
pub mod Instruction
pub mod Compressed
pub mod Code
pub mod Run
