pub mod Writing
pub mod Judging
pub mod Packing
pub mod Calls
