pub mod Words
pub mod Meanings
pub mod Gathers
pub mod Tight
pub mod Counts
pub mod Passing
pub mod Depths
