pub mod Filing
pub mod Form
pub mod Memory
pub mod Rising
pub mod Table
