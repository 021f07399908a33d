pub mod Ready
pub mod Gap
