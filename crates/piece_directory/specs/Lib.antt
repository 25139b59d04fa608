pub mod Olds
pub mod Piece
pub mod Stretch
