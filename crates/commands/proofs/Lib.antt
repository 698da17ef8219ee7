pub mod Inversions
pub mod SetReads
pub mod Widths
