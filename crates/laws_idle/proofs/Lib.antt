pub mod Choosing
pub mod HasStep
pub mod HasEffect
pub mod Idling
pub mod Ending
