pub mod Frames
pub mod Pays
pub mod Refusals
pub mod Answered
pub mod GhostMoves
pub mod Accounts
