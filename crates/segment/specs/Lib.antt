pub mod Verdict
pub mod Step
pub mod Lying
pub mod Left
