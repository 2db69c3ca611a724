pub mod Choices
pub mod Holds
pub mod Laws
pub mod Packings
pub mod Sound
pub mod Tables
