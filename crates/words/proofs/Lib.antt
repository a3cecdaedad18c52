pub mod FamilyMatches
pub mod Joined
pub mod Opcodes
pub mod WalkWords
