pub mod Counting
pub mod Walks
pub mod Tutte
pub mod Edges
pub mod Naming
pub mod Flooding
