pub mod Words
pub mod Fits
pub mod Starts
pub mod Tight
