pub mod Unique
pub mod Function
pub mod Walk
pub mod Names
