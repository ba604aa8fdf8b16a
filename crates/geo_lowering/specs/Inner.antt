-- What private functions and proofs speak of: how the steps are built. No public contract cites it.
pub mod Renaming
pub mod StepNumbers
pub mod StepLists
pub mod Growing
