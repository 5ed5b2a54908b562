pub mod LineLaws
pub mod RecordCases
pub mod RecordLaws
pub mod StreamLaws
