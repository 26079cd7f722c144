pub mod Costs
pub mod Landing
pub mod Keeping
pub mod Dropping
pub mod Sending
