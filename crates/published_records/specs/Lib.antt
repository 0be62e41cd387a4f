pub mod Chain
pub mod Published
pub mod Standing
