pub mod Counting
pub mod Entries
pub mod ExactSums
pub mod FloatColumns
pub mod SignedColumns
pub mod ToldApart
pub mod UnsignedColumns
pub mod Walks
