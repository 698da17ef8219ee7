pub mod Ascents
pub mod WindowRows
