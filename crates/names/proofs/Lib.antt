pub mod First
pub mod Tables
