pub mod Through
pub mod Told
