pub mod Fitting
pub mod Lawfuls
