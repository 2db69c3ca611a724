pub mod Aparts
pub mod Folds
pub mod Maxima
pub mod Numbering
pub mod Parts
pub mod Perms
pub mod Solutions
pub mod Times
