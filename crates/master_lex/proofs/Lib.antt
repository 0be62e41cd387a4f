pub mod Machine
pub mod Readings
pub mod Standing
pub mod Order
pub mod Reach
pub mod Pieces
pub mod Lexers
