pub mod Pages
pub mod Opened
pub mod Crashes
