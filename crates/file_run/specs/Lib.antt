pub mod Answers
pub mod Called
pub mod Papers
pub mod Run
