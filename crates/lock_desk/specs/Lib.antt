pub mod Asking
pub mod PayWants
