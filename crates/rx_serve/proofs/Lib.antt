pub mod Feeds
pub mod Coming
pub mod Cuts
pub mod Answering
pub mod Courses
