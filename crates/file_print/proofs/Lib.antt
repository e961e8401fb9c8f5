pub mod Filled
pub mod Written
pub mod Told
