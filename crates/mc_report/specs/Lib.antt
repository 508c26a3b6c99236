pub mod Behind
pub mod Fronts
pub mod Grammar
pub mod Report
