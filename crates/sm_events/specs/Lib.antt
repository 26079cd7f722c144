pub mod Deciding
pub mod Relating
pub mod Ruling
pub mod Served
