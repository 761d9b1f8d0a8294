pub mod Pages
pub mod Tied
pub mod Laws
