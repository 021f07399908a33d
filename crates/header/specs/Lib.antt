pub mod Reading
pub mod Ranges
