pub mod Folders
pub mod Systems
pub mod Walks
