pub mod Appending
pub mod Carrying
pub mod Earliest
pub mod Carried
pub mod Giving
pub mod Kept
