pub mod Words
pub mod Kept
pub mod Names
pub mod Plain
pub mod Written
pub mod Bodies
