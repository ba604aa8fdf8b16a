-- What private functions and proofs speak of: how a polynomial is searched, and texts of lines. No public contract cites it.
pub mod Searches
pub mod Texts
