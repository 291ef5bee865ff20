pub mod Checks
pub mod Choices
pub mod Tries
pub mod Telling
pub mod Ordered
pub mod Tight
pub mod Leading
