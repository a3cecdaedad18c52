pub mod Replies
pub mod Indexes
pub mod HistoryInC
pub mod KeepingInC
pub mod AgreementInC
