pub mod Bytes
pub mod Choice
pub mod Class
pub mod Lists
pub mod Local
pub mod Prog
