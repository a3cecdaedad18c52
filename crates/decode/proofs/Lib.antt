pub mod Matched
pub mod SignExtendSum
