-- What holds where a step of a running transfer is due, and what a step costs.
pub mod Parties
pub mod DueCases
pub mod RunningTransfers
pub mod LegsThere
pub mod Landing
pub mod Shipping
pub mod Costs
