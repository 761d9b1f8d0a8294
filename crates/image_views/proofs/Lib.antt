pub mod Alike
pub mod Gaps
pub mod Merging
pub mod Evaluated
pub mod Readable
pub mod Places
