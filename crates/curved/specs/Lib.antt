pub mod Quadratic
pub mod Keeping
pub mod Forms
