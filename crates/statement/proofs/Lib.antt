pub mod Boards
pub mod Takes
pub mod Reached
pub mod Same
