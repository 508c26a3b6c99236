pub mod Changed
pub mod Giving
pub mod Started
pub mod Fitted
pub mod TableRows
