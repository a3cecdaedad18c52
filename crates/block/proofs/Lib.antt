mod Calls
pub mod CallerReadsReply
pub mod CodeAgrees
pub mod Compiled
pub mod FirstWord
pub mod ReplyLaws
pub mod Witness
pub mod KeptWitness
pub mod Spelled
