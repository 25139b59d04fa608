pub mod Dry
pub mod Found
pub mod Kept
pub mod Rich
pub mod Trailing
