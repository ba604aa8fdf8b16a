pub mod Reckonings
pub mod Inner
pub mod Formulas
pub mod Evaluation
pub mod Placing
pub mod Laws
