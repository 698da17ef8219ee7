pub mod Cuts
pub mod Latest
pub mod Searches
pub mod Walks
