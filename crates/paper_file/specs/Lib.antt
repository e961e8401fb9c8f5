pub mod Words
pub mod Papers
pub mod Calls
pub mod Laws
