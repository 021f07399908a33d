pub mod Raising
pub mod Within
pub mod Gathering
pub mod Scattering
pub mod Ranges
