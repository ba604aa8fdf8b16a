-- What private functions speak of. No public contract cites it.
pub mod Answers
pub mod Goals
pub mod Counting
pub mod Names
pub mod Asking
pub mod Listing
pub mod Naming
pub mod Knowing
pub mod GoalsWorked
pub mod Missing
pub mod Cases
