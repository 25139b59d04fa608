pub mod Strings
pub mod Passed
