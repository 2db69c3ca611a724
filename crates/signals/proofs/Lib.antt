pub mod Finding
pub mod Riding
pub mod Rowing
