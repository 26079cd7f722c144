pub mod Spelled
pub mod Framed
pub mod Answer
pub mod Crash
pub mod Settled
pub mod Through
