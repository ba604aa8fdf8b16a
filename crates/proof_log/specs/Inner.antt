-- What private functions speak of: how the pieces of a line are read, and names made before. No public contract cites it.
pub mod Reading
pub mod Leads
pub mod Growing
pub mod Names
pub mod KeptTexts
