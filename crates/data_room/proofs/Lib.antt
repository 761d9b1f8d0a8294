pub mod Wheres
pub mod Kept
pub mod Owed
pub mod Counted
pub mod Transactions
pub mod Entries
pub mod Used
