pub mod Rows
pub mod Held
pub mod Read
pub mod Told
