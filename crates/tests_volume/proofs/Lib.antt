pub mod StableStands
pub mod PairFits
