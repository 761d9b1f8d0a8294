pub mod Firsts
pub mod Held
pub mod Reserving
pub mod Latest
pub mod Answered
pub mod Ghosted
pub mod Undone
