-- What private functions and proofs speak of: how a number is put into polynomials. No public contract cites it.
pub mod Changes
pub mod Forms
