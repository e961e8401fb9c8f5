pub mod Pages
pub mod Texts
pub mod Readings
