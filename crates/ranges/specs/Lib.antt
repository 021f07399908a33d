pub mod Sums
pub mod Asked
pub mod Reached
