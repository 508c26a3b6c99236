mod Rows
mod WedgeRows
pub mod ListedValences
pub mod Signs
pub mod Products
pub mod Others
pub mod Loops
pub mod Apart
pub mod Alone
pub mod Usable
pub mod Parity
pub mod Counted
pub mod DrawnDecided
pub mod DrawnWhole
pub mod Integers
pub mod MetOrder
pub mod MetSorted
pub mod Noted
pub mod FewRings
pub mod Accepted
pub mod PlaceLists
pub mod Filled
pub mod Sizes
pub mod Standing
pub mod SidesFits
pub mod Given
pub mod SmallTables
