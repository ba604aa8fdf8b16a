pub mod Statements
pub mod Terms
pub mod Lists
pub mod Truth
pub mod Laws
pub mod Problems
pub mod Inner
