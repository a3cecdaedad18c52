pub mod Program
pub mod Prefix
