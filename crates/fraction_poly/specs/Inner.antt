-- What private functions and proofs speak of: drafts of rows, and terms multiplied out part by part. No public contract cites it.
pub mod Charges
pub mod Parts
pub mod Numerators
pub mod Drafts
pub mod Known
pub mod Simple
