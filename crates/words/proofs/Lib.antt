pub mod Writes
pub mod Tight
