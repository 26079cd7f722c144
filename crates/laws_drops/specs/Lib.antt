pub mod Dropping
pub mod Runs
