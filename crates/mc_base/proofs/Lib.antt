pub mod AllKinds
pub mod NamesApart
pub mod Digits
