pub mod Room
pub mod BlankDisks
