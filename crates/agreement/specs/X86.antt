pub mod Memory
pub mod Form
pub mod Encode
pub mod Decode
pub mod State
pub mod Flags
pub mod Execute
pub mod Step
