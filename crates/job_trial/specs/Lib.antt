pub mod Laws
pub mod Line
pub mod Meaning
pub mod Words
