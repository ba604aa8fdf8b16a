-- What private functions and proofs speak of: how words are cut, how a log is judged, how the log of a generated program is told, and what
-- becomes of the bytes of an input. No public contract cites it.
pub mod OrderParts
pub mod Judgements
pub mod Answering
pub mod Telling
