pub mod Passing
pub mod Listed
pub mod Telling
pub mod Loops
