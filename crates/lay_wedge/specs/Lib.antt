pub mod Plans
pub mod Underway
pub mod Fitting
pub mod TableRows
