pub mod Promised
pub mod Tight
