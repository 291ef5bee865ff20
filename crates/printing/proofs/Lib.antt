pub mod Pieces
pub mod Decimals
pub mod Fields
pub mod Accepts
pub mod Refuses
pub mod Rounds
