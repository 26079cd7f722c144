pub mod Catalog
pub mod Layout
pub mod Spelling
pub mod Condition
pub mod Kept
