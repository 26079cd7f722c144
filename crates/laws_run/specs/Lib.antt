pub mod Histories
pub mod Listed
pub mod Laws
pub mod Worlds
pub mod Examples
