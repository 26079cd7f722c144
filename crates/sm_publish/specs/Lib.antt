pub mod Committing
pub mod Dropping
pub mod Preparing
pub mod Settling
pub mod Defined
