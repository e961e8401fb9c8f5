pub mod Range
pub mod Fraction
pub mod Rows
