pub mod Fielding
pub mod Hexing
