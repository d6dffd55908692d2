pub mod Clocked
pub mod Stamps
pub mod Watched
