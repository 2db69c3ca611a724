pub mod Busy
pub mod Instances
