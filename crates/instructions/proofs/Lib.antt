pub mod Onward
pub mod Walked
