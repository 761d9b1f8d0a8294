pub mod Walking
pub mod Firsts
pub mod Cycles
pub mod Levels
pub mod Places
