pub mod Useful
