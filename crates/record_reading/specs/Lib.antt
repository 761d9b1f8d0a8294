pub mod Completed
pub mod Groups
pub mod Changes
pub mod Laws
