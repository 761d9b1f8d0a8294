pub mod Wire
pub mod Memory
pub mod Reading
pub mod Found
pub mod Kept
