pub mod Pieces
pub mod Fewest
