pub mod Agreement
pub mod Between
pub mod Carried
pub mod Differences
pub mod Stands
