pub mod Words
pub mod Bits
pub mod Key
pub mod Checks
