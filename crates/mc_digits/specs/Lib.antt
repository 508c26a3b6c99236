pub mod Fields
pub mod Fronts
pub mod Views
pub mod Written
