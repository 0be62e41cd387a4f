pub mod Texts
pub mod Leaves
pub mod Alike
pub mod Lists
pub mod Reading
pub mod Laws
