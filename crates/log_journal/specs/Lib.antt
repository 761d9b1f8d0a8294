pub mod Saved
pub mod Standing
pub mod Cuts
