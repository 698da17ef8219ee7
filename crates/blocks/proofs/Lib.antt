pub mod Ascents
pub mod Wraps
