pub mod Cases
pub mod Images
