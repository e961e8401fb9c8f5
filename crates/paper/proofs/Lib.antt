pub mod Layouts
pub mod Names
pub mod Changes
pub mod HandOvers
pub mod Dispatches
pub mod Lists
pub mod Exacts
