pub mod Cached
pub mod Names
pub mod Refusals
pub mod Same
pub mod Types
pub mod Values
