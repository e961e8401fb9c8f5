pub mod Standing
pub mod Filling
pub mod Known
pub mod Making
pub mod Forming
