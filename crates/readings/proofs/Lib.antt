pub mod NewBoardReads
pub mod SiteReading
