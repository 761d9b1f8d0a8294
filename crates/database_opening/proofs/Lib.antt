pub mod Headers
pub mod Beginning
pub mod Saving
pub mod Refusing
pub mod Leaving
