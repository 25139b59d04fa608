pub mod Tree
pub mod Forms
pub mod Steps
pub mod Function
pub mod Examples
