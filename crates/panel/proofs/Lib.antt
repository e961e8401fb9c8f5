pub mod Judging
pub mod Holding
pub mod Steps
pub mod Standings
pub mod Copying
pub mod Begun
pub mod Changing
pub mod Later
