pub mod AcceptedLaws
pub mod JudgeLaws
pub mod MonthLaws
pub mod SumLaws
pub mod VerdictCases
