pub mod File
pub mod Told
