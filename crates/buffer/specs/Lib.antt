pub mod Stored
pub mod Decimal
pub mod Laws
