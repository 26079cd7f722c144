pub mod Found
pub mod WalkLemmas
