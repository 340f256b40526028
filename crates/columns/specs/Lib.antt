pub mod Bitmaps
pub mod Columns
pub mod Constants
pub mod Eithers
pub mod Primitives
pub mod States
pub mod Stretches
pub mod Values
