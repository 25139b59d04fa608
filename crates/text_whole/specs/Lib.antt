pub mod Texts
pub mod Verdicts
