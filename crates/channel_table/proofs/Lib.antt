pub mod Bits
pub mod BitAt
pub mod Marked
pub mod Lowest
pub mod Places
pub mod Gap
pub mod Passes
