pub mod Objects
pub mod Steps
pub mod EachLemmas
pub mod Walks
pub mod SortedLemmas
pub mod ScopeLemmas
pub mod QueryWalks
