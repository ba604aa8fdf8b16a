pub mod Canonical
pub mod Merging
pub mod Sums
pub mod Totals
pub mod NaturalAmounts
pub mod Coefficients
