pub mod CommitLemmas
pub mod GoingLemmas
pub mod PrepareLemmas
pub mod PruneLemmas
pub mod DefinedLemmas
