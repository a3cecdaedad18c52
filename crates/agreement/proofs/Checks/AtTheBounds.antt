pub mod Numbers
pub mod Runs
pub mod Blocks
pub mod HostCode
pub mod GuestWords
