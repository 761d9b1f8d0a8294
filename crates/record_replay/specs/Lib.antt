pub mod Past
pub mod Texts
pub mod Standing
pub mod Reversing
pub mod Telling
