pub mod Nodes
pub mod Seeks
