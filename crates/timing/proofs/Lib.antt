pub mod Combining
pub mod Ranking
pub mod Tables
pub mod Telling
