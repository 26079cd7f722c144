pub mod Format
pub mod Grammar
pub mod Place
pub mod Reading
pub mod Reads
