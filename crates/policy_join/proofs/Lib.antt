pub mod Joins
pub mod Strengths
