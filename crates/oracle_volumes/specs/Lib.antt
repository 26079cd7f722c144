pub mod Answering
pub mod Ruling
