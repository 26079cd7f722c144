pub mod Destinations
pub mod Transfers
