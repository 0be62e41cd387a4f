pub mod Laws
pub mod Lines
pub mod Meaning
pub mod Words
