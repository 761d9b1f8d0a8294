pub mod Spelled
pub mod Bears
pub mod Found
pub mod Places
pub mod Placed
pub mod WorkedPlaces
pub mod Calls
pub mod Laws
