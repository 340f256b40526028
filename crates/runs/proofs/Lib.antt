pub mod Pages
pub mod Running
