pub mod AscentTests
pub mod SetPaths
