pub mod NewBoards
pub mod PlainTotals
pub mod Reporting
pub mod Reports
pub mod Totals
