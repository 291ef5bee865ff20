pub mod Data
pub mod Packed
