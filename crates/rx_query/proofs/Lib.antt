pub mod Orders
pub mod Sorting
pub mod Rows
pub mod Numbers
