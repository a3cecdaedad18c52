pub mod Args
pub mod Forms
pub mod Quotient
pub mod Shapes
pub mod Written
