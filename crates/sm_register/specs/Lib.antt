pub mod Answer
pub mod Registered
pub mod Opened
pub mod Commits
pub mod Turned
pub mod Restarted
