pub mod Conditions
pub mod Groups
pub mod InOrder
pub mod Kept
pub mod Orders
pub mod Programs
