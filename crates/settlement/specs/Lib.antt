pub mod Refusals
pub mod Settling
pub mod Taking
