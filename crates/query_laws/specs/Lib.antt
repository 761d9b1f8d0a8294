pub mod Laws
pub mod Limited
