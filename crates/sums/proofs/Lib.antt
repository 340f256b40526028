pub mod Chunks
pub mod NanBits
pub mod Products
pub mod Runs
pub mod SignedTotals
pub mod Steps
pub mod UnsignedTotals
