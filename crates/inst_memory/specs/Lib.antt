pub mod Access
pub mod Alloca
pub mod Ordering
