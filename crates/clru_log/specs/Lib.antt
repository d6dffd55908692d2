pub mod Calendar
pub mod Columns
pub mod Cuts
pub mod Cutting
pub mod DateLaws
pub mod Dates
pub mod Shapes
