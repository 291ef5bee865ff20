pub mod Size
pub mod Places
pub mod Rows
pub mod Chunks
pub mod Reading
pub mod Unread
pub mod Ends
pub mod Tight
