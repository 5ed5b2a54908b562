pub mod Account
pub mod Board
pub mod Faults
pub mod Postings
pub mod Statement
pub mod Joining
pub mod Law
