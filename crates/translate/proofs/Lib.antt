pub mod Halfwords
pub mod Front
