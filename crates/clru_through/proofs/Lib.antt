pub mod Freshness
pub mod Fronts
pub mod LoadRuns
pub mod Looking
pub mod SizedLoadRuns
pub mod Sourced
