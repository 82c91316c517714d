pub mod Lists
pub mod Empty
pub mod Views
