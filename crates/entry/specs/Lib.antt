pub mod Index
pub mod History
pub mod Laws
