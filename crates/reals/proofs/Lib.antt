pub mod OrderLaws
pub mod Units
pub mod Sums
pub mod Bits
pub mod Sizes
pub mod Finite
pub mod Stepping
pub mod Chains
