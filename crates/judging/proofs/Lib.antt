pub mod Findings
pub mod Judging
pub mod Verdicts
pub mod Whole
