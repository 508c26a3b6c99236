pub mod Symbols
pub mod Rising
