pub mod Arrays
pub mod Codes
pub mod Objects
pub mod OneSize
pub mod Parts
