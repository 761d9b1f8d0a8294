pub mod Lists
pub mod Around
pub mod Maps
pub mod Firsts
