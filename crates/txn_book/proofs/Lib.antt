pub mod Seating
pub mod Coming
pub mod Booking
pub mod Holding
pub mod Totals
pub mod Entering
pub mod Leading
pub mod Least
