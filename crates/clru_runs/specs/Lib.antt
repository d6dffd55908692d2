pub mod Attempts
pub mod IncludedRun
pub mod PutRun
pub mod Run
pub mod SizedPutRun
pub mod Step
