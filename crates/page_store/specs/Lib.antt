pub mod Image
pub mod Kept
pub mod Publish
pub mod Store
