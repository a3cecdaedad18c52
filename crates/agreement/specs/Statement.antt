pub mod Machine
pub mod Premises
pub mod Steps
pub mod Agreement
pub mod Kept
