pub mod Nearest
pub mod Scale
pub mod Bits
