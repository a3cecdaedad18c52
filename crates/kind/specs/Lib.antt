pub mod Numbered
pub mod Family
