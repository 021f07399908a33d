pub mod Codes
pub mod Digits
pub mod Layouts
