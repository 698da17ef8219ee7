pub mod Causes
pub mod Commands
pub mod Numbers
pub mod Ranges
pub mod Records
pub mod Sources
pub mod Words
