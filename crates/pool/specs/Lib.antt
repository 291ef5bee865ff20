pub mod Log
pub mod Meaning
pub mod Counted
