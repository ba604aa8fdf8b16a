pub mod LemmaTable
pub mod Kept
pub mod Replacements
pub mod Multiples
pub mod FirstLemmas
pub mod Inner
