pub mod Laws
pub mod Policy
