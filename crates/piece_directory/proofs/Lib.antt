pub mod Links
pub mod Moved
pub mod Stretch
