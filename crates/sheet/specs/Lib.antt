pub mod Blank
pub mod Page
pub mod Figure
pub mod Lines
pub mod Reading
