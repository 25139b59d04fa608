pub mod Kinds
pub mod Words
pub mod Maps
pub mod Targets
pub mod Reading
