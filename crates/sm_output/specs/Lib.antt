pub mod Status
pub mod Words
pub mod Listing
pub mod Output
