pub mod SameWalk
pub mod Stepping
