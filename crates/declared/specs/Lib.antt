pub mod Details
pub mod Faults
pub mod File
pub mod Forms
pub mod Lines
pub mod Order
pub mod RoundTrips
pub mod Writing
