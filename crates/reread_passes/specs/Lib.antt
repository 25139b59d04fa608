pub mod Numbered
pub mod First
pub mod Second
