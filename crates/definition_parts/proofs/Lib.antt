pub mod Entries
pub mod Texts
pub mod Parting
pub mod Sizes
pub mod Standing
pub mod Staying
