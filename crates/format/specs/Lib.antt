pub mod Format
pub mod WellFormed
pub mod Written
