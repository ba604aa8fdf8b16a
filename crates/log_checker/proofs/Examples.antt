-- The definitions on logs: accepted ones, and altered ones that are refused.
pub mod Logs
pub mod Midpoints
pub mod AlteredLogs
