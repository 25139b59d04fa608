pub mod Again
pub mod Write
pub mod Dry
pub mod Rewrite
