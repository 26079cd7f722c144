pub mod Asked
pub mod Coming
pub mod Ended
pub mod Alone
pub mod Reporting
