pub mod Seen
pub mod Wide
pub mod Grouped
pub mod Fresh
