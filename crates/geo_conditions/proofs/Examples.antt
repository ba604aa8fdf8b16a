-- The definitions on programs.
pub mod Programs
