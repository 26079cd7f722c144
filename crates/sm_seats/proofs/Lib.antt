pub mod Lists
mod Gathered
mod Moving
mod Numbering
