pub mod Told
pub mod Table
pub mod Fires
pub mod Answers
pub mod Known
