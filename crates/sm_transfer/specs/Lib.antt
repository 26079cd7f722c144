pub mod Sending
pub mod Beginning
pub mod Shipping
pub mod Landing
pub mod Defined
pub mod Landed
