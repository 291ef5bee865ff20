pub mod Runs
pub mod Bytes
pub mod Keys
pub mod Entries
pub mod Finding
pub mod Order
pub mod Tight
