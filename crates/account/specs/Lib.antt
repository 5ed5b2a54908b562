pub mod Postings
pub mod Settled
