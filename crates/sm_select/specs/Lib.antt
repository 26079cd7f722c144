pub mod Planned
pub mod PlanLaws
