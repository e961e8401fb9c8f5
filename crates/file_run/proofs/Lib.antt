pub mod Calls
pub mod Brought
pub mod Runs
pub mod Files
