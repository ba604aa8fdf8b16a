pub mod Decided
pub mod Logs
pub mod Refused
pub mod Accepted
pub mod OneDue
