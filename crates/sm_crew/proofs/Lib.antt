mod Replies
pub mod Coming
mod Commands
mod Scripted
mod Reports
mod Looks
mod ReportParts
