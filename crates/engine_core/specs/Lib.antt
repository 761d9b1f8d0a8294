pub mod Crashes
pub mod Standing
pub mod CrashLaws
pub mod Acting
pub mod Laws
