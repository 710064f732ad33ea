pub mod Lists
pub mod Totals
pub mod Moving
pub mod Moves
pub mod Stamping
pub mod Ranges
pub mod Ends
pub mod Seats
