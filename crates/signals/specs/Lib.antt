pub mod Gathered
pub mod Limits
pub mod Names
pub mod Riders
pub mod Rows
