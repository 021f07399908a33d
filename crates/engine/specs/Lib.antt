pub mod Promise
pub mod Runs
