pub mod Going
pub mod Slots
pub mod Trying
pub mod Requests
pub mod Cleaning
pub mod Leaving
