pub mod Exact
pub mod Kept
pub mod PriceLists
pub mod RowLimits
pub mod Outages
pub mod RowsTold
