pub mod Copy
pub mod Func
pub mod Void
