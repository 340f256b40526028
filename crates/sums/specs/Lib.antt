pub mod States
pub mod Sums
