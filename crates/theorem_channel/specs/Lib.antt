pub mod Table
pub mod Calls
pub mod Channels
