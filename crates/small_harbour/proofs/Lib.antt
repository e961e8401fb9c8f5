pub mod Dispatches
pub mod Floors
pub mod Examples
