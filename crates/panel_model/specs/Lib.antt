pub mod Change
pub mod Laws
pub mod Network
pub mod Says
pub mod Theorems
