pub mod Chosen
pub mod Leaves
pub mod Needs
pub mod Row
pub mod Tables
pub mod Totals
pub mod Verdicts
