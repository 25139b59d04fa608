pub mod Numerals
pub mod Steps
pub mod Scans
pub mod Reads
