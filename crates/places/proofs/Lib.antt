pub mod Words
pub mod Tight
