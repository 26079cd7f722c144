pub mod Families
pub mod Found
pub mod Restarts
pub mod Refused
