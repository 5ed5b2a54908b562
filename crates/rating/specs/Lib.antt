pub mod Boundary
pub mod Charge
pub mod Faults
pub mod Rating
