pub mod Common
pub mod Riscv
pub mod X86
pub mod Translation
pub mod Statement
pub mod Laws
pub mod Cases
