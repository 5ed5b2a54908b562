pub mod Searches
pub mod Tables
