pub mod Fragment
pub mod Written
