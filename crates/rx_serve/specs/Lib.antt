pub mod Lines
pub mod Incoming
pub mod Answered
pub mod Served
pub mod Refused
pub mod Course
pub mod Ends
pub mod Calling
