pub mod Log
pub mod Acts
