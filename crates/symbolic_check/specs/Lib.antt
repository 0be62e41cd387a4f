pub mod Steps
pub mod Walk
pub mod Networks
pub mod Stretches
pub mod Evaluation
pub mod Laws
pub mod Keyed
pub mod Families
