pub mod Ends
pub mod Given
pub mod Got
pub mod LoadRuns
pub mod Steps
pub mod Store
pub mod Unless
