pub mod Replied
pub mod Unanswered
