pub mod Fetch
pub mod Walks
