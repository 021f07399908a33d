pub mod Allowance
pub mod Pieces
pub mod Meaning
