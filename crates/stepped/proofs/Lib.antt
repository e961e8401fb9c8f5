pub mod Sizes
pub mod Slices
pub mod Ordered
pub mod Powers
pub mod RowTest
pub mod StepLaw
