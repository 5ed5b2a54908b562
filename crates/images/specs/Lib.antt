pub mod Arrivals
pub mod Faults
pub mod Fields
pub mod Format
pub mod ReadBack
pub mod Written
