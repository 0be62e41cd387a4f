pub mod Laws
pub mod Strength
pub mod Tries
