pub mod Answer
pub mod Given
pub mod Meaning
pub mod Turn
