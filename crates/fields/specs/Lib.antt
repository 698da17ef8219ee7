pub mod Ascent
pub mod Codes
pub mod Days
pub mod Groups
pub mod MeasurementClasses
pub mod Padding
pub mod Sets
pub mod Statuses
