pub mod Lowest
pub mod Numbers
