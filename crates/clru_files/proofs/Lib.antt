pub mod Looking
pub mod Reading
pub mod Requests
