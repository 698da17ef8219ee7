pub mod Block
pub mod Form
pub mod Holding
pub mod Wrapping
