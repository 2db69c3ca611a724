pub mod Apart
pub mod Folds
pub mod Largest
pub mod Numbers
pub mod Picks
pub mod Smallest
pub mod Times
