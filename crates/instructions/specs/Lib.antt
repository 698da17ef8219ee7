pub mod Faults
pub mod Files
pub mod Meanings
pub mod Places
pub mod Stages
pub mod Walks
