pub mod AtomLines
pub mod CountsLine
pub mod BondBlock
pub mod Entries
pub mod Still
pub mod PropertyBlock
pub mod SaidAtoms
pub mod Refusals
mod Rows
pub mod SoundTables
