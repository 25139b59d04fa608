pub mod Texts
pub mod Compare
