pub mod Cuts
pub mod Inside
