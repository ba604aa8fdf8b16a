-- What private functions speak of. No public contract cites it.
pub mod Stops
pub mod Lines
pub mod Judged
pub mod ByText
