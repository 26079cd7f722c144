pub mod Assigned
pub mod Answered
