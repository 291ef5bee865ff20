pub mod Measured
pub mod Tight
