pub mod Blank
pub mod Faults
pub mod Standing
pub mod Walking
pub mod Lying
pub mod Left
pub mod Runs
