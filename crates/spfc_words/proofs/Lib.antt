pub mod Addresses
pub mod Domains
pub mod Inputs
pub mod ReadingLimits
pub mod LowerTexts
pub mod Settings
pub mod Subjects
pub mod ZoneWords
