pub mod Boundary
pub mod Cases
pub mod Contests
pub mod Faults
pub mod Months
pub mod Verdicts
