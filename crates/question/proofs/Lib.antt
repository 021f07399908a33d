pub mod Search
pub mod Meaning
