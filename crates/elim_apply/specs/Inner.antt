-- What private functions and proofs speak of: the size of a line, before anything is multiplied out. No public contract cites it.
pub mod Sketches
pub mod Shares
pub mod KeptShares
pub mod Sizes
