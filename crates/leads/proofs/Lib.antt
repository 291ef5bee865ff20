pub mod Keys
pub mod Seen
pub mod Words
pub mod Laying
pub mod Nested
pub mod Bytes
pub mod Told
pub mod Tight
