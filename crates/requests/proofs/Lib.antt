pub mod DigitLaws
pub mod HalfwordLaws
