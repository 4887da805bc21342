pub mod Counts
pub mod Limits
pub mod Place
pub mod Stretch
pub mod Steps
pub mod Counted
pub mod Cursor
pub mod Answers
