pub mod Answers
pub mod Asked
pub mod Ends
pub mod Tasks
pub mod Verdicts
