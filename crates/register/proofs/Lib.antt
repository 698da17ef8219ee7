pub mod Keeping
pub mod Nexts
pub mod PairOrder
pub mod Rising
pub mod Shifts
