-- What is needed, and what of it a change leaves.
pub mod Needs
pub mod NeedsStay
pub mod NeededHere
pub mod Leaving
