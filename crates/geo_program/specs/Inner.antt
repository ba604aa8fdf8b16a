-- What private functions and proofs speak of: how a program is printed. No public contract cites it.
pub mod Printing
