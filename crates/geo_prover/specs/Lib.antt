pub mod Proving
pub mod Inner
pub mod Bench
