pub mod Living
pub mod Promises
pub mod Riding
pub mod Turning
