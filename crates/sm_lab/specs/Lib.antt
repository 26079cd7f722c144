pub mod Promises
pub mod Running
pub mod Reading
pub mod Call
pub mod Smooth
