pub mod Answers
pub mod Judging
pub mod Laws
pub mod Lines
pub mod Parts
pub mod Placed
pub mod Reading
pub mod Rounds
