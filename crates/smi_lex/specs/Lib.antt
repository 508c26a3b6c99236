pub mod Grammar
pub mod Reading
pub mod Fronts
pub mod Views
pub mod Tokens
pub mod Steps
