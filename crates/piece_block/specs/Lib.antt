pub mod Bodied
pub mod Opcodes
pub mod Stated
pub mod Part
