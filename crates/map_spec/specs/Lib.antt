pub mod Drawing
pub mod Blocks
pub mod Buffer
pub mod Known
