pub mod Memory
pub mod Fetching
pub mod Straight
pub mod Jumpless
pub mod Paths
pub mod Steps
