pub mod Accounts
pub mod Figures
pub mod FileSums
pub mod States
pub mod Tallies
