pub mod DeviceLemmas
pub mod DigitLemmas
pub mod DecimalLemmas
pub mod LineLemmas
