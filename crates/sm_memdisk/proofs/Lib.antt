pub mod Overs
pub mod Paged
pub mod Told
pub mod Logged
pub mod Restarts
pub mod Meets
pub mod Copied
