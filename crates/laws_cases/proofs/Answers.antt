-- What an answer does: each event walked through its refusals, and the change that it makes.
pub mod Walk
pub mod Changes
pub mod Plainly
pub mod OfVolumeEvents
pub mod OfRelationEvents
pub mod OfAnswer
pub mod Deeds
pub mod Showing
pub mod Refused
pub mod Opening
