pub mod Filings
pub mod Growth
pub mod NewBlock
pub mod OtherRows
pub mod Readings
pub mod Searches
pub mod Walks
