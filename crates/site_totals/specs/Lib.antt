pub mod Readings
pub mod SiteSums
