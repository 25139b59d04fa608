pub mod Folds
pub mod Hex
pub mod Integers
pub mod Literals
