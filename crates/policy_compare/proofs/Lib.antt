pub mod Counting
pub mod Leaves
pub mod Listing
pub mod OneList
pub mod Telling
