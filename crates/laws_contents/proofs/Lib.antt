pub mod Traced
pub mod Along
pub mod Contents
