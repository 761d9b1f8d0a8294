pub mod Through
pub mod Going
pub mod Recovering
