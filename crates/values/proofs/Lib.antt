pub mod Backs
pub mod LabelLaws
pub mod InRange
pub mod TextLaws
