-- What private functions and proofs speak of: how the two lists are built. No public contract cites it.
pub mod ConditionLists
pub mod GoalLists
pub mod ItemTerms
pub mod ItemForms
