pub mod Askable
