pub mod Amounts
pub mod Cases
pub mod Columns
pub mod Fields
pub mod File
pub mod Layout
pub mod Sums
