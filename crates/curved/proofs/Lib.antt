pub mod Sizes
pub mod Least
