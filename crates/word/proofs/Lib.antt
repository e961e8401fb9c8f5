pub mod Words
pub mod Forms
pub mod Exacts
pub mod Slots
pub mod Machines
pub mod Runs
pub mod Columns
pub mod Fillings
