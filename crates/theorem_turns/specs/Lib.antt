pub mod Same
pub mod Loops
pub mod Lists
pub mod Turned
pub mod Turns
pub mod Ranks
