pub mod Powers
pub mod Spaces
pub mod Decimals
pub mod Fields
pub mod FixedFields
pub mod Exact
pub mod ReadBack
