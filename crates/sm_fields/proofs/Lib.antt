pub mod Sizes
pub mod Exact
pub mod Words
pub mod Whole
pub mod InTurn
pub mod Spelled
pub mod Alike
