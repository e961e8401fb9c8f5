pub mod Piecewise
pub mod Pieces
pub mod StepLaw
pub mod Keeping
pub mod Forms
