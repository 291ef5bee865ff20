pub mod Rewriting
pub mod Calls
