pub mod CrossedParts
pub mod CrossedKeys
pub mod CrossedLegs
pub mod CrossedSteps
pub mod CrossedAnswers
pub mod CrossedStays
