pub mod Meant
pub mod Each
pub mod Seen
pub mod Walking
