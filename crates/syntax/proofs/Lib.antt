pub mod Useful
pub mod Moves
pub mod Marks
pub mod Turns
pub mod Cuts
pub mod Tight
