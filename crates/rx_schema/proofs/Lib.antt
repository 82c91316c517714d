pub mod Lists
pub mod Properties
pub mod Written
pub mod Schemas
pub mod PropertyAgain
pub mod NamesAgain
pub mod Again
pub mod Valid
