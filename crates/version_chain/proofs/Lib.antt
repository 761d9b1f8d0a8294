pub mod Around
pub mod Numbers
pub mod Found
pub mod LawLemmas
pub mod Dues
pub mod Histories
