pub mod Reading
pub mod Part
