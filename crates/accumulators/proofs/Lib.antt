pub mod Accumulating
pub mod Boarding
pub mod Lookups
pub mod Merging
