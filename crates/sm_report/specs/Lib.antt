pub mod Texts
pub mod RefusalText
pub mod Text
pub mod Transcript
