pub mod BadReply
pub mod Conflicts
pub mod Asked
pub mod Accept
pub mod Valid
