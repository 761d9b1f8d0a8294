pub mod Own
pub mod Trees
pub mod Holding
