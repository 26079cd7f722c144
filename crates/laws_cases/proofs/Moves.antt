-- The moves that answers make, and what they leave as it was.
pub mod Moves
pub mod OfMoves
pub mod PoliciesStay
