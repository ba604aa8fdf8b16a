pub mod Coprime
pub mod LowestTerms
pub mod Sums
pub mod Turned
