pub mod Reservations
pub mod Made
