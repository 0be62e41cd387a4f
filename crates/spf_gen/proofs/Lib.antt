pub mod Drawing
pub mod Lines
pub mod Places
pub mod Reading
pub mod Texts
