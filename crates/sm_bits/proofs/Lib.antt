pub mod Rows
pub mod RowCount
pub mod RowSearch
pub mod BitPlaces
pub mod BitOps
pub mod Marks
pub mod OnesBelow
