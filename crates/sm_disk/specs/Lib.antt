pub mod Image
pub mod Disk
pub mod Spared
