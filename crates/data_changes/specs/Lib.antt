pub mod Effects
pub mod Paying
pub mod Ghosts
