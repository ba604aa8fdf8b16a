pub mod Texts
pub mod Forms
pub mod Slots
pub mod Refusals
pub mod Laws
pub mod Inner
