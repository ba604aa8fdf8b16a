-- What private functions speak of: the turns of a merge, and what a step changes. No public contract cites it.
pub mod Turns
pub mod Changes
