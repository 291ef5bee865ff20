pub mod Ahead
pub mod Added
pub mod Choices
pub mod Stored
pub mod Tight
