pub mod Lists
pub mod Asc
pub mod Landed
pub mod Kept
pub mod Sent
