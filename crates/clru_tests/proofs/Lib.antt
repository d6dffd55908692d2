pub mod Apart
pub mod Distinct
