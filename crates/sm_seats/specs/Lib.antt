pub mod Seats
pub mod Moves
pub mod Numbers
