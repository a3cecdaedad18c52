pub mod Decode16
pub mod Decode32
pub mod Kind
pub mod Needed
pub mod Emit
pub mod Walk
pub mod Replies
pub mod Place
