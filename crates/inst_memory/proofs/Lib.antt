pub mod AllocaLaws
pub mod MemoryLaws
