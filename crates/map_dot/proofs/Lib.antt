pub mod Letters
pub mod Zeros
pub mod Ends
pub mod Edges
pub mod Lines
pub mod Outcomes
