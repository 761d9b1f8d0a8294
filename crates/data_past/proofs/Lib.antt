pub mod Counting
pub mod Entering
pub mod Pushing
pub mod Pendings
pub mod Effects
pub mod Committing
pub mod Laws
pub mod Aheads
