pub mod Begun
pub mod Holding
pub mod Onward
pub mod Whether
pub mod Reaching
