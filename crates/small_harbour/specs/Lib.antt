pub mod Harbour
pub mod Example
