pub mod Digits16
pub mod Folds
pub mod Magnitudes
pub mod Scans
pub mod Widen
