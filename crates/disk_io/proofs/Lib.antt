mod Crashes
pub mod Moments
mod Moved
mod Recording
mod Replays
