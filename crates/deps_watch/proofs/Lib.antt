pub mod Agreeing
pub mod Room
pub mod Watching
pub mod Asked
pub mod Appending
pub mod KeptWell
pub mod Texts
