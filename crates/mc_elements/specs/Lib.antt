pub mod Elements
pub mod Valences
