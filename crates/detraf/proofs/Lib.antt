pub mod AmountLaws
pub mod FieldLaws
pub mod FileCases
pub mod FileLaws
pub mod LineLaws
pub mod SumLaws
