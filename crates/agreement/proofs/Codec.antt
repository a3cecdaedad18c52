pub mod Decoding
pub mod Encoding
pub mod Joined
