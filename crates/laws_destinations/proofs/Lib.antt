pub mod Bases
pub mod DestinationsStay
pub mod TransfersStay
