pub mod Fields
pub mod Halfwords
pub mod Indexing
pub mod Lines
pub mod Pattern
