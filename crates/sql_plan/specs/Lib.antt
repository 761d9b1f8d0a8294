pub mod Parts
pub mod Planning
