pub mod Modes
pub mod Refusals
