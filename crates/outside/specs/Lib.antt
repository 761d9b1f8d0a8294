pub mod Closed
pub mod Disks
pub mod ListOutside
pub mod Outside
pub mod Places
