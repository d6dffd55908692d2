pub mod Faults
pub mod Report
