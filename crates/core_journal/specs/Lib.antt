pub mod Records
pub mod Cuts
pub mod NoJournal
