pub mod Meaning
pub mod Idle
pub mod Limits
pub mod Group
