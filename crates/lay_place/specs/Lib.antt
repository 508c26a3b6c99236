pub mod Rows
pub mod Asks
pub mod Wanted
pub mod Walk
pub mod Curve
pub mod Wishes
pub mod Search
pub mod Fitting
