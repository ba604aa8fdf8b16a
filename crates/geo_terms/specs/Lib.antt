pub mod Trees
pub mod Stores
pub mod Values
pub mod Constructions
pub mod Laws
pub mod TermBounds
