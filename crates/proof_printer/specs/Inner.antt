-- What private functions and proofs speak of. No public contract cites it.
pub mod Names
pub mod Colons
pub mod Printing
pub mod Reading
pub mod Heads
pub mod ConditionLines
