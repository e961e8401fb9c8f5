pub mod Idle
pub mod InRange
pub mod Answering
pub mod Totals
