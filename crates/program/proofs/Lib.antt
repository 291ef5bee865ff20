pub mod Rows
pub mod Choosing
pub mod Preparing
pub mod Running
pub mod Promised
pub mod Tight
