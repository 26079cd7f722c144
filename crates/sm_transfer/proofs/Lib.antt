pub mod LandedLemmas
pub mod PlanningLemmas
pub mod BeginLemmas
pub mod KeepLemmas
pub mod LegLemmas
pub mod DefinedLemmas
