pub mod Judging
pub mod Whole
