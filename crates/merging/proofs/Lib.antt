pub mod Figures
pub mod MergeLaws
pub mod Reorderings
pub mod Sizes
pub mod Visits
