pub mod Vectors
pub mod Names
pub mod Wire
pub mod Octets
pub mod Splits
pub mod Printing
pub mod Texts
pub mod Joins
