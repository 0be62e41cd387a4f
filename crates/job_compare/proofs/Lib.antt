pub mod Comparing
pub mod Splitting
pub mod Texts
