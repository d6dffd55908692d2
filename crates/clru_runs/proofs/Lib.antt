pub mod Attempting
pub mod Extending
pub mod Included
pub mod Lending
pub mod PutRunning
pub mod Retained
pub mod Running
pub mod SizedPutRunning
mod Walking
