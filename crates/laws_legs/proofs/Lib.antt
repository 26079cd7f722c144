pub mod FitParts
pub mod FitAnswers
pub mod FitStays
pub mod FitShips
pub mod FitSteps
pub mod KeptParts
pub mod KeptStays
