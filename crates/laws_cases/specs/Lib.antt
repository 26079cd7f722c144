pub mod Answering
pub mod Needs
