pub mod Lines
pub mod First
