pub mod Answers
pub mod Buses
pub mod Limits
pub mod Wiring
pub mod Bussing
