pub mod Goodness
pub mod Accepts
pub mod Rereads
