pub mod Lines
pub mod Loading
pub mod Memory
pub mod Reading
pub mod Refusals
