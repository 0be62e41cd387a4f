pub mod Expansion
pub mod Grammar
pub mod Laws
pub mod Reading
pub mod Reversed
pub mod Words
