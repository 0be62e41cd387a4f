pub mod Keeping
pub mod Freshness
pub mod Laws
pub mod Reversals
