pub mod Digits
pub mod Ends
pub mod Levels
pub mod Nodes
pub mod Paths
pub mod Reading
pub mod Stops
