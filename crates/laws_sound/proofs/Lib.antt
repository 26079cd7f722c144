pub mod Soundly
