pub mod Owing
pub mod Joining
pub mod Parts
pub mod Wants
pub mod Law
