-- What private functions and proofs speak of: how a text is read, word by word. No public contract cites it.
pub mod Coming
pub mod Symbols
pub mod CommandWords
pub mod StatementWords
pub mod Dictionaries
pub mod Reads
