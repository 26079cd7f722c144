pub mod BlocksStay
pub mod BlocksSteps
pub mod FamilyParts
pub mod FamilyMoves
pub mod FamilyAnswers
pub mod FamilyTakes
pub mod FamilyPublish
pub mod OwnFamiliesStay
