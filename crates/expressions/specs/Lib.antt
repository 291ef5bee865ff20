pub mod Grammar
pub mod Ends
pub mod Sheet
pub mod Call
pub mod Filling
