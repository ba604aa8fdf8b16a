pub mod Writable
pub mod Lines
pub mod Steps
pub mod Laws
pub mod Inner
