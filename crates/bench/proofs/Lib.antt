pub mod Bench
pub mod Kept
