pub mod Seen
pub mod Kinds
pub mod Changes
pub mod Chosen
