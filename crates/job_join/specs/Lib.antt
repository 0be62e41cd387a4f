pub mod Laws
pub mod Meaning
pub mod Verdicts
pub mod Words
