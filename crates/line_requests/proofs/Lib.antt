pub mod Digits
pub mod FormLemmas
