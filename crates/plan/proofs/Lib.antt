pub mod Asking
pub mod Orderings
pub mod Figures
pub mod Readings
pub mod Upholding
pub mod Wording
