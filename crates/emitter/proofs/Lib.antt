pub mod QuotientLaws
pub mod WriteLaws
