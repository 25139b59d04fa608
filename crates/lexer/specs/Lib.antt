pub mod Parsed
pub mod Table
pub mod Step
pub mod Reads
pub mod Tests
