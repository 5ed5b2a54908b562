pub mod Arrived
pub mod Slots
