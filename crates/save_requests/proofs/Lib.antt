pub mod Left
pub mod Pieces
pub mod Promise
