pub mod Views
pub mod Payloads
pub mod Moves
pub mod Bounds
