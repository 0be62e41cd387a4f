pub mod Domains
pub mod Fragments
pub mod Lines
pub mod Names
pub mod Tables
pub mod Texts
pub mod Records
pub mod Strings
