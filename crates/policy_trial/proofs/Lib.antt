pub mod Included
pub mod OneTrial
pub mod Places
pub mod Policies
pub mod Rows
pub mod TrialLemmas
pub mod Verdicts
pub mod ZoneLent
