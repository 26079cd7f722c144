pub mod Added
pub mod Marks
