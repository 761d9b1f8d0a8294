pub mod Trees
pub mod Spared
