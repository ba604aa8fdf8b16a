pub mod Naming
pub mod Polynomials
pub mod Readable
pub mod Proofs
pub mod Status
pub mod Due
pub mod Inner
