pub mod Kept
pub mod Outage
pub mod Laws
