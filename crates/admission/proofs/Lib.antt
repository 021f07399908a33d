pub mod Noting
pub mod Meaning
