pub mod Fours
pub mod Cuts
pub mod Heads
