pub mod Calendar
pub mod Checked
pub mod Kinds
pub mod Labels
pub mod Ranges
pub mod Rates
pub mod Text
pub mod Values
