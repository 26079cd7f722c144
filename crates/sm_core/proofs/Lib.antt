mod WrittenLemmas
mod Entries
mod Shows
mod RestartEntry
mod Least
mod CountsKept
mod Opened
pub mod FaultCounts
