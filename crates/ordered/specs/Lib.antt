pub mod Entries
pub mod Form
pub mod Keys
pub mod Order
