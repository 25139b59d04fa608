pub mod Windows
pub mod Search
