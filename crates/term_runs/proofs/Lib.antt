pub mod Order
pub mod Turns
pub mod Scaled
pub mod Doubled
pub mod Parts
pub mod Products
