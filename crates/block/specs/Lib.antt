pub mod First
pub mod Answers
pub mod CallerReads
pub mod AgreementInCode
