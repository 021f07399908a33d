pub mod Terms
pub mod Allowance
pub mod Sought
pub mod Pieces
