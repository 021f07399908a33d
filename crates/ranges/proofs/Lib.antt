pub mod Meetings
pub mod Sums
pub mod Reaches
pub mod Loading
