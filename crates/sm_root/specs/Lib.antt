pub mod Condition
pub mod Spelling
pub mod Spots
pub mod Layout
pub mod ByTable
pub mod Answer
pub mod Known
