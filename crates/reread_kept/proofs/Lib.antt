pub mod Word
pub mod Front
pub mod Place
pub mod Final
