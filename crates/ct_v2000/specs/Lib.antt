pub mod Counts
pub mod AtomLines
pub mod BondLines
pub mod Properties
pub mod Replaced
pub mod AtomParts
pub mod Table
pub mod Blocks
