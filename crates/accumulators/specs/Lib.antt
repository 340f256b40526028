pub mod Accumulators
pub mod Belonging
pub mod BoardSheets
pub mod Boards
