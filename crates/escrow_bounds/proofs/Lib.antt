pub mod SumLemmas
pub mod PartLemmas
pub mod ColumnLemmas
pub mod KeepLemmas
pub mod LawLemmas
