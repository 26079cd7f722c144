pub mod DropsOfEvents
pub mod DropsOfSteps
pub mod Dropping
pub mod Runs
pub mod EntryDrops
