pub mod Growing
pub mod Leading
pub mod Searching
pub mod Numbered
pub mod Lowest
