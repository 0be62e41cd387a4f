pub mod Items
pub mod Entries
pub mod Broken
pub mod File
pub mod Steps
pub mod Pieces
