pub mod BytesChanged
pub mod ImageCases
pub mod ImagePuts
pub mod RowsCounted
