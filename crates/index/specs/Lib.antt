pub mod Answers
pub mod HistoryOf
pub mod HistoryInCode
