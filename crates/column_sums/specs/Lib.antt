pub mod ColumnSums
pub mod ColumnTotals
pub mod Counts
pub mod Examples
pub mod Lots
pub mod Records
