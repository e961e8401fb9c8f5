pub mod Raw
pub mod Offer
pub mod Build
