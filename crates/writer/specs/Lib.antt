pub mod Asked
pub mod Planning
pub mod Post
pub mod CdbParts
pub mod SegmentParts
