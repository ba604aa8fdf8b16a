-- What private functions speak of: all answers in one. No public contract cites it.
pub mod Answers
