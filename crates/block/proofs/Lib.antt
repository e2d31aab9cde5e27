pub mod Passing
pub mod Filling
pub mod Keys
pub mod Masks
