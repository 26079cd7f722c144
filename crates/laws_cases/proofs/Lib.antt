pub mod Lists
pub mod Answers
pub mod Moves
pub mod Steps
pub mod Needed
