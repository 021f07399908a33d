pub mod Deciding
pub mod Runs
