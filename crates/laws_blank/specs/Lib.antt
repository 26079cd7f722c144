pub mod Blanking
pub mod Laws
