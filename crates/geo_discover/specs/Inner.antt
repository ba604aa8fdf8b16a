-- What private functions speak of: how candidates are listed and judged, and how the text of a search is written. No public contract cites it.
pub mod Puts
pub mod Walks
pub mod Searching
pub mod Sharing
pub mod Fixing
