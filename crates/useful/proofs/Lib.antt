pub mod Limits
pub mod Filled
pub mod Tight
