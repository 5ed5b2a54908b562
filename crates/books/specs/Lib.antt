pub mod Books
pub mod Faults
pub mod Items
pub mod Layers
pub mod Lists
