pub mod States
pub mod Cases
pub mod Afters
pub mod Stages
pub mod Checks
pub mod Outcomes
pub mod Progress
pub mod Orders
mod OpenWords
