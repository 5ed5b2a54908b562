pub mod CheckLaws
pub mod FieldBacks
pub mod FieldReads
pub mod FormLaws
pub mod LineBacks
pub mod LineLaws
pub mod LineReads
pub mod ReadLaws
