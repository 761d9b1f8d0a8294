pub mod Versions
pub mod Trees
pub mod Chains
pub mod Law
pub mod Deltas
pub mod States
