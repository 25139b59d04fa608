pub mod Chain
pub mod Find
