pub mod Fault
pub mod Case
pub mod Order
pub mod CaseFault
pub mod State
pub mod Complete
pub mod Rows
