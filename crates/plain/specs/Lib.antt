pub mod Choice
pub mod Below
pub mod Lists
pub mod Buffers
pub mod Told
pub mod Between
