pub mod Points
pub mod Vectors
pub mod Placements
pub mod Steps
pub mod Laws
