mod PartsSpelled
mod PathSpelled
mod PolicySpelled
mod TransferSpelled
mod Differ
mod CatalogSpelled
mod CatalogFits
mod Lengths
pub mod Decoded
mod Few
mod Added
mod Slotted
